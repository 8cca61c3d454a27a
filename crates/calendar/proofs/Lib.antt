-- The laws that the proofs cite.
pub mod Months
pub mod Counted
pub mod Paper
