-- The laws that the proofs cite.
pub mod Marking
pub mod Copying
pub mod Putting
pub mod Asking
