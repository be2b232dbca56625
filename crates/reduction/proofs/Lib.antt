-- Laws that the proofs of the functions on images share, and those that callers cite.
pub mod Keeping
pub mod Lent
pub mod Marking
pub mod Others
pub mod Passes
pub mod Positions
pub mod Ready
pub mod Searches
pub mod Slots
pub mod Walks
