-- Laws that the proofs of step 5 share.
pub mod Stored
pub mod Sorting
pub mod Turns
