-- The definitions that the contracts cite.
pub mod Kinds
pub mod Counting
pub mod Files
