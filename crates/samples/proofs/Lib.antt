-- A law for the functions of this crate.
pub mod Areas
