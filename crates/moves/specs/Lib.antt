-- What the lent calls promise, and what their parts find.
pub mod Promise
pub mod Found
