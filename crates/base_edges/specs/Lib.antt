-- Base edges as records. Assumes nothing.
pub mod Edge
