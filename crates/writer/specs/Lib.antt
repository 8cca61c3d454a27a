-- The definitions that the contracts cite.
pub mod Given
pub mod Sizes
pub mod Lent
