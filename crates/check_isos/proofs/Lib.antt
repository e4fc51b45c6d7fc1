-- Laws of answers, of the I lines that are collected, and of the walk over the rows.
pub mod Earlier
pub mod Collecting
pub mod Stepping
