-- What the steps of a descent find.
pub mod Steps
