-- Laws that the proofs of the List with coefficients share.
pub mod Finishing
pub mod Ends
pub mod Steps
pub mod Admitted
