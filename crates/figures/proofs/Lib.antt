-- Laws that the proofs of the functions on figures share.
pub mod Parts
pub mod Rows
pub mod Values
