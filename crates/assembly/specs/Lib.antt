-- The words of demand 3.
pub mod History
pub mod Runs
