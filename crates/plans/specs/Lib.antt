-- What the search for the best plan within a budget promises, and what its parts find.
pub mod Promise
pub mod Found
