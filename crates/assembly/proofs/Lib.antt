-- The theorems, from lists to demand 3.
pub mod Joined
pub mod Order
pub mod Demand
pub mod Copies
pub mod Runs
