-- Laws that the proofs of the functions on costs and bounds share.
pub mod Sums
