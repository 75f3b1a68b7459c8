-- The terms of the check pass. Assumes nothing.
pub mod Row
