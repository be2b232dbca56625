-- The records of a run, and the answer rows that a lent area shows.
pub mod Draws
pub mod Run
