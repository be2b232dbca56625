-- The lent calls and the services with the entry limit as a parameter.
pub mod Calls
pub mod Services
pub mod Examples
