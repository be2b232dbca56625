-- What the parts of the services promise.
pub mod Answered
