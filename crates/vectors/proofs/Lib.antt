-- Laws that the proofs of the functions on vectors share.
pub mod Cells
pub mod Negatives
pub mod Kit
pub mod Support
pub mod Keys
pub mod Rows
pub mod Searches
pub mod Arrays
