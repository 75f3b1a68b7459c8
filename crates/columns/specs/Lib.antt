-- Places that are looked for. Assumes nothing.
pub mod Found
