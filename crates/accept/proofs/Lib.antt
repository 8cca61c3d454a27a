-- The laws that the proofs cite.
pub mod Paper
pub mod Tables
pub mod Known
