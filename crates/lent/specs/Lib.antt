-- The lent calls for C: how they end, and what they promise.
pub mod Ends
pub mod Promise
