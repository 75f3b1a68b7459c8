-- The inputs of the decodes. Assumes nothing.
pub mod Inputs
