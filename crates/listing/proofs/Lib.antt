-- The laws, each proved once over every width.
pub mod Digits
pub mod Words
