-- The definitions that the contracts cite.
pub mod Cut
pub mod Parts
pub mod Slates
