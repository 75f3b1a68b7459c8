-- The laws of codes, and their theorems. Assumes nothing.
pub mod Lift
pub mod Chosen
pub mod Made
pub mod CodeEdges
pub mod Refused
pub mod Theorems
