-- The laws of an iteration. Assumes nothing.
pub mod Local
pub mod Append
pub mod Regions
pub mod Noiseless
