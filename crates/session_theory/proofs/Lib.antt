-- The theorems over the definition of a session.
pub mod Turns
pub mod Tests
pub mod Own
pub mod Kept
pub mod Parts
pub mod Areas
