-- The laws of the choice of shifts. Assumes nothing.
pub mod Wrapping
pub mod Drawn
pub mod Weighed
pub mod Biased
pub mod Searched
pub mod Placing
