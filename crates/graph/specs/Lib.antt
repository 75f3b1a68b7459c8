-- What the calls of graph design tell and write. Assumes nothing.
pub mod Calls
