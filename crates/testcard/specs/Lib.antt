-- The definitions that the contracts cite.
pub mod Card
pub mod Cut
pub mod Words
