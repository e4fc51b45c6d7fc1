pub mod Index
pub mod Indexed
