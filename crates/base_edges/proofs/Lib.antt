-- The laws of base edges. Assumes nothing.
pub mod Edges
