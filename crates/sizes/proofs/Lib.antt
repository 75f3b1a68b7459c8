-- What the passes know of what they are lent. Assumes nothing.
pub mod Lent
