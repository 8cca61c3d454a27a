-- The theorem and its two halves.
pub mod Back
pub mod Inside
pub mod Forth
pub mod Eight
pub mod Lawful
pub mod Exactly
