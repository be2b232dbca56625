-- Laws of a session's tests, of its halves, and of its end.
pub mod Differences
pub mod Testing
pub mod Halves
pub mod Ends
