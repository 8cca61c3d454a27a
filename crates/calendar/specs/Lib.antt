-- The definitions that the contracts cite.
pub mod Dates
pub mod Shots
