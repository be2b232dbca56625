-- What the services answer to order files, what they promise of them, and sample orders as files.
pub mod Services
pub mod Promise
pub mod Examples
