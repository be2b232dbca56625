-- What the functions on coefficients find, and what they ask of their callers.
pub mod Carrying
