-- The flat lists, and the graphs over them. Assumes nothing.
pub mod Flat
pub mod Graph
