-- The shift generator and the choice of shifts. Assumes nothing.
pub mod Generator
pub mod Shifts
pub mod Biases
