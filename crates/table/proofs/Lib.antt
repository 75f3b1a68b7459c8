-- The check over the starred rows. Assumes nothing.
pub mod Table
