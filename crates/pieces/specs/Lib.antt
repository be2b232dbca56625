-- What is taken from a vector, and where its pieces are written.
pub mod Taking
