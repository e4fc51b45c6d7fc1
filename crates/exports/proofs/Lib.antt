-- The lines of pairs, written one after the other.
pub mod Printing
-- A list on a checked table, case by case.
pub mod Listing
-- The service, case by case.
pub mod Serving
