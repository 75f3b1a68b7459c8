-- The bit pass in one, column after column. Assumes nothing.
pub mod Columns
