-- What the tests 17 to 19 find, and what they ask of their callers.
pub mod Tests
