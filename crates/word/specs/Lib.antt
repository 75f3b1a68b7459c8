-- The word that a read writes. Assumes nothing.
pub mod Word
