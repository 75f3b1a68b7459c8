-- The inputs that are computed, and the checksum of what is printed. Assumes nothing.
pub mod Generator
pub mod Kinds
pub mod Sums
