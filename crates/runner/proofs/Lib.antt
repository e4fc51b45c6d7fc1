-- Bytes copied to the front of an area.
pub mod Copying
-- A run on a checked table, case by case.
pub mod Running
-- Run, case by case.
pub mod Answering
-- The numbers behind an index.
pub mod Parting
