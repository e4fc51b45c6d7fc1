-- The T lines of a file in the table, and the two tests of one.
pub mod Lines
-- A number and letters on a checked table, case by case.
pub mod Answering
-- The services, case by case.
pub mod Serving
