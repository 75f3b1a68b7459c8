-- The terms of vectors. Assumes nothing.
pub mod Masks
