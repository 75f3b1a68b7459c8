-- Edge growth. Assumes nothing.
pub mod Growth
pub mod Search
pub mod Rows
