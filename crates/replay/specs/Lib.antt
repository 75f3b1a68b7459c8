-- The inputs of the replay. Assumes nothing.
pub mod Inputs
