-- The laws of the file: numerals, lines, rows, printing, turning.
pub mod Told
pub mod Numerals
pub mod Naming
pub mod Passing
pub mod Turning
pub mod Idling
pub mod Endings
pub mod Printing
pub mod Tables
pub mod Sizes
