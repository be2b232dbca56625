-- Laws that the proofs of the completion with coefficients share.
pub mod Made
pub mod Noted
pub mod Storing
pub mod Summing
pub mod Generators
pub mod Firsts
pub mod FirstNotes
pub mod Prefix
pub mod Advancing
pub mod Turns
pub mod Joined
