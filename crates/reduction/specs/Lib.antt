-- What the functions on images ask of their callers.
pub mod Areas
pub mod Marks
