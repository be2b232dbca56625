-- Laws of the services on files.
pub mod Rooms
pub mod Serving
pub mod Endings
