-- What the functions of step 5 say and ask.
pub mod Flags
