-- Laws that the proofs of the functions on draws share.
pub mod Entries
pub mod Records
pub mod Images
pub mod Answering
pub mod Running
