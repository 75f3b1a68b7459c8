-- The laws of edge growth. Assumes nothing.
pub mod Reached
pub mod Begun
pub mod Kept
pub mod Chosen
pub mod Filled
pub mod Parity
pub mod Added
pub mod Grown
pub mod Edges
pub mod Words
pub mod Frontier
