-- What is tested of a problem.
pub mod Problems
