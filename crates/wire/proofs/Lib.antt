-- The laws, each proved once over every width and both orders.
pub mod Spans
pub mod Numbers
pub mod Stores
pub mod Rows
pub mod Pieces
pub mod Equal
pub mod Eights
