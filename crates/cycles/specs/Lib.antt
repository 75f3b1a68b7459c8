-- Four-cycles. Assumes nothing.
pub mod Cycles
pub mod Places
