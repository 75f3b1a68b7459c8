-- The laws of the count of four-cycles. Assumes nothing.
pub mod Closing
pub mod Rows
pub mod Once
pub mod Halved
