-- The decode record, and what its calls tell and write. Assumes nothing.
pub mod Decoding
pub mod Calls
