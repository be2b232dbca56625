-- Laws that the proofs of the functions on windows share, and the promise.
pub mod Reaching
pub mod Promised
pub mod Endings
