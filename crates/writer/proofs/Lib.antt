-- The laws that the proofs share.
pub mod Good
pub mod Scattered
pub mod Written
