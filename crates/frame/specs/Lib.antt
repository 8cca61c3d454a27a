-- The definitions that the contracts cite.
pub mod Counts
pub mod Records
pub mod Frames
pub mod Lines
