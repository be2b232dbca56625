-- Laws that the proofs of tests 17 to 19 and 23 share.
pub mod Tests
pub mod Sums
