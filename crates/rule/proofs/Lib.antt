-- The laws of the check rule. Assumes nothing.
pub mod Ordered
