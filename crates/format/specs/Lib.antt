-- The definitions that the contracts cite.
pub mod Texts
pub mod Ranges
pub mod Bands
pub mod Names
