-- The terms of the passes. Assumes nothing.
pub mod Rows
