-- Records and answers as plain numbers. Assumes nothing.
pub mod Answers
pub mod Calls
