-- One iteration of min-sum over the work memory. Assumes nothing.
pub mod Memory
pub mod Iteration
pub mod Regions
