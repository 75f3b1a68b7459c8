-- The laws of the check pass, and of an iteration in its regions. Assumes nothing.
pub mod Rows
pub mod Iterated
