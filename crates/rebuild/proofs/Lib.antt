-- When two columns differ. Assumes nothing.
pub mod Apart
