-- The terms of runs. Assumes nothing.
pub mod Combined
