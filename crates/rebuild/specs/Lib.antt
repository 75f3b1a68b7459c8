-- How graphs are compared. Assumes nothing.
pub mod Compared
