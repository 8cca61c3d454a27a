-- The definitions that the contracts cite.
pub mod Counts
pub mod Quality
