-- What the completion with coefficients comes to, and what its functions ask of their callers.
pub mod Noting
