-- The proofs of the lent calls.
pub mod Tables
pub mod Ends
pub mod Steps
pub mod Splits
pub mod Checkings
