-- What the completion on lent areas means by the definitions.
pub mod Machine
pub mod Storing
