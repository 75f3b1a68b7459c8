-- The theorems on grants, on clean and on noiseless blocks. Assumes nothing.
pub mod Whole
pub mod Cases
pub mod Claim
pub mod Clean
pub mod Regions
pub mod Noiseless
pub mod Anywhere
pub mod Ending
