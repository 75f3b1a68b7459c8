-- A record read back. Assumes nothing.
pub mod Back
