-- How far apart the totals of two plan calls are whose problems differ in one cost, with examples.
pub mod Sensitivity
pub mod Examples
