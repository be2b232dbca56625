-- Laws of counts in their area, of what a call reports, and of how the lent calls for C end.
pub mod Laying
pub mod Reporting
pub mod Ending
pub mod Calls
pub mod Sessions
pub mod Windows
pub mod Planning
