-- The laws of the parity part, row by row. Assumes nothing.
pub mod Staired
