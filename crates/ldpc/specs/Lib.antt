-- Codes: their choice, and what the getters tell. Assumes nothing.
pub mod Choice
pub mod Code
pub mod Getters
