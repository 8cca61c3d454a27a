-- The definitions that the contracts cite.
pub mod Places
pub mod Values
pub mod Encode
pub mod Entries
