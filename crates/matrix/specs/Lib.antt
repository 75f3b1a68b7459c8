-- The base edges, the parity-check matrix and the encoding. Assumes nothing.
pub mod Edges
pub mod Checks
pub mod Encoding
