-- Laws of the scan and of the numbers that an accepted order lends.
pub mod Grammar
pub mod Sizes
pub mod Steps
pub mod Scans
pub mod Commands
pub mod Numbers
pub mod Walks
pub mod Prefix
pub mod Examples
