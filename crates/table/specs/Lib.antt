-- The starred rows of the commissioning table. Assumes nothing.
pub mod Table
