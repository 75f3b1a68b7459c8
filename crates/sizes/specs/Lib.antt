-- What every pass goes by. Assumes nothing.
pub mod Sizes
