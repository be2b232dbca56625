-- Order files (Specification 8): the scan, and the numbers that an accepted file lends.
pub mod Grammar
pub mod Scan
pub mod Operands
pub mod Walk
pub mod Examples
