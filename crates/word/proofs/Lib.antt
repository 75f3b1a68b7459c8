-- The laws of the word that a read writes, and of decisions on sixteen totals. Assumes nothing.
pub mod Word
pub mod Sixteen
