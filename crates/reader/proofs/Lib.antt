-- The laws that the proofs cite.
pub mod Columns
pub mod Filled
