-- The laws that the proofs cite.
pub mod Number
pub mod Plain
pub mod Listed
pub mod Sizes
