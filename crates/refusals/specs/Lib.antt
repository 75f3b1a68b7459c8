-- What a call comes to. Assumes nothing.
pub mod Outcome
