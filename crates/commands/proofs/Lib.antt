-- Laws of the commands.
pub mod Known
