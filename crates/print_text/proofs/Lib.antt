-- The bytes of numbers, fields and rows, written one after the other.
pub mod Written
