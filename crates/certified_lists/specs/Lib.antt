-- What the List with coefficients promises, and what its parts find.
pub mod Promise
pub mod Found
