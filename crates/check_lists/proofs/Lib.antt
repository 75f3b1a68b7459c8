-- The laws of a check's members, edge by edge. Assumes nothing.
pub mod Member
