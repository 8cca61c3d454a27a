-- The laws.
pub mod Steps
pub mod Ends
pub mod Reels
pub mod Lists
pub mod Writing
pub mod Places
