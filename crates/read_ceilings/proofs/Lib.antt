-- The ceilings of a row.
pub mod Ceilings
