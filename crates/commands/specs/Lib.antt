-- The commands of an order file and the numbers of their operands (Specification 8.1).
pub mod Commands
pub mod Decode
