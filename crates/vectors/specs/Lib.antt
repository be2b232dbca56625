-- What the functions on vectors ask of their callers, the keys of vectors, the two parts of their comparison, and lent
-- areas at the two moments of a call.
pub mod Bounds
pub mod Keys
pub mod Support
pub mod Areas
