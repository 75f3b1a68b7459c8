-- The laws of the sums over the base edges of a code. Assumes nothing.
pub mod Parts
pub mod Single
pub mod Summed
