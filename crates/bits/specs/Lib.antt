-- What is said of bits that are bytes. Assumes nothing.
pub mod Sums
pub mod Rows
pub mod Words
