-- What the window over a run of draws promises, and what its parts find.
pub mod Promise
pub mod Found
