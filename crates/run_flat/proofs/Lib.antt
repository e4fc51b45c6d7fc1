-- A flat pattern against the letters of a value, number by number.
pub mod Following
-- The letters of a flat pattern, written number by number.
pub mod Writing
