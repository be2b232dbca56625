-- Laws that the proofs of the functions on pieces share.
pub mod Multiples
pub mod Laying
pub mod Joining
pub mod Turns
