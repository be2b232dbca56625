-- Laws of one order of a session.
pub mod Turns
pub mod Halves
