-- The laws of the bit pass, column after column. Assumes nothing.
pub mod ByColumns
pub mod Lent
