-- What the tests with which every call begins find.
pub mod Tests
