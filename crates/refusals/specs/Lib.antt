-- What the tests find.
pub mod Tests
