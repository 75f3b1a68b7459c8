-- What the tests of the calls come to, and what holds of the graphs built. Assumes nothing.
pub mod Tested
pub mod Accepted
