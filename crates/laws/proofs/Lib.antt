-- The laws that the crates share. Assumes nothing.
pub mod Range
pub mod Pairs
pub mod Parity
pub mod Folded
pub mod Slots
pub mod Written
pub mod Collect
pub mod First
pub mod Some
pub mod Foremost
pub mod Columns
pub mod Front
pub mod Run
pub mod Floats
