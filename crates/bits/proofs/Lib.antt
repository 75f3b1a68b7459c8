-- The laws of bytes that are bits, of words of them, and of rows. Assumes nothing.
pub mod Bytes
pub mod Above
pub mod Row
pub mod Turned
