-- The lines of some bytes.
pub mod Splitting
