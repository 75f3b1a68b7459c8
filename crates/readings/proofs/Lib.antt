-- A slice that is filled with what a state gives. Assumes nothing.
pub mod Filling
