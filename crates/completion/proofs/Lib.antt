-- Laws that the proofs of the completion share, and those that callers cite.
pub mod Appending
pub mod Facts
pub mod FirstRows
pub mod Sums
