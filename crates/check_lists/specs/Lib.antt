-- The terms of the loops that find a check's members. Assumes nothing.
pub mod Members
