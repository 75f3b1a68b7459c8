-- The sizes of the graphs, and the rules of their columns. Assumes nothing.
pub mod Sizes
pub mod Columns
