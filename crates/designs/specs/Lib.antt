-- What the program draws. Assumes nothing.
pub mod Inputs
