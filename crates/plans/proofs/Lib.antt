-- The search for the best plan within a budget.
pub mod Promised
pub mod Endings
