-- The definitions that the contracts cite.
pub mod Ends
pub mod Reels
pub mod Writing
