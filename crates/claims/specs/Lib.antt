-- The claim of grants over a list of calls. Assumes nothing.
pub mod Claim
