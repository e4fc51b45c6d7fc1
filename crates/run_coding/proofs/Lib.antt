-- A pattern's numbers, written.
pub mod Flattening
-- The numbers for the P lines, line by line.
pub mod Listing
