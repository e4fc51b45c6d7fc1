-- The row of a line.
pub mod Rows
pub mod Ahead
