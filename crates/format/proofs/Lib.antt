-- The laws that the proofs cite.
pub mod Days
pub mod Digits
pub mod Rows
