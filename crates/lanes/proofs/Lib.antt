-- The laws of vectors: lane by lane, of masks, and of runs that grow by blocks. Assumes nothing.
pub mod Lanewise
pub mod Parities
pub mod Blocks
