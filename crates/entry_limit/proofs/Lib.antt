-- Which answers a lower entry limit leaves as they were.
pub mod Same
pub mod Kept
pub mod Before
pub mod Examples
