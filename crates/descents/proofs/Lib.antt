-- The steps of a descent.
pub mod Pricing
pub mod Walking
pub mod Choosing
pub mod Descending
