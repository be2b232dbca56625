-- What the services promise of order files: laws of their answers, for C calls and programs.
pub mod Prefix
pub mod Orders
pub mod Fits
pub mod Cases
pub mod Meaning
pub mod Ends
pub mod Calls
pub mod Bounds
pub mod Printing
pub mod SentBack
pub mod Examples
