-- Laws that the proofs of tests 20 to 22 share.
pub mod Given
pub mod Trying
