-- One order of a session on its half of a list area.
pub mod Ends
