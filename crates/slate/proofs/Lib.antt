-- The laws that the proofs cite.
pub mod Cuts
pub mod Heights
pub mod Paper
pub mod Parts
