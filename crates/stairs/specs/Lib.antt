-- The terms of the loops that write the parity part. Assumes nothing.
pub mod Stairs
