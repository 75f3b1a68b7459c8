-- The theorems of the matrix and the encoding. Assumes nothing.
pub mod Edges
pub mod Codeword
pub mod Words
pub mod Simple
pub mod ByRow
pub mod ByColumn
pub mod Members
