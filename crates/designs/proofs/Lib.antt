-- The computed columns. Assumes nothing.
pub mod Drawn
