-- What a session promises, and what its parts find.
pub mod Promise
pub mod Found
