-- Laws that the proofs of the functions on coefficients share.
pub mod Firsts
pub mod Numbers
pub mod Adding
pub mod Multiples
pub mod Making
pub mod Moving
pub mod Nets
pub mod Closing
pub mod Blanks
pub mod Loads
pub mod Arranging
pub mod Slotted
pub mod Subtracting
pub mod Nothing
