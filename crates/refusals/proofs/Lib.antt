-- The tests of the refusals. Assumes nothing.
pub mod Lengths
