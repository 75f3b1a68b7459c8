-- Where a column has a row. Assumes nothing.
pub mod Found
pub mod Places
