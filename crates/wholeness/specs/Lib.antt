-- What the tests of a brought list ask of their callers.
pub mod Lists
