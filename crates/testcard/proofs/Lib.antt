-- The laws of the loops.
pub mod Digits
pub mod Heights
pub mod Parts
pub mod Shades
