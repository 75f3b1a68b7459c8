-- What the soak draws, compares and counts. Assumes nothing.
pub mod Inputs
pub mod Totals
pub mod Compare
pub mod Calls
