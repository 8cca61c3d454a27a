-- The words of demand 2.
pub mod Lawful
pub mod Made
