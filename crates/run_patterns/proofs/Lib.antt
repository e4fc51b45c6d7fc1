-- The lines that a P line names, and the letter of its kind.
pub mod Lines
-- The letters of a value that stand at a place, and where they end.
pub mod Spelling
-- A pattern against the letters of a value.
pub mod Matching
-- The letters of a pattern, written.
pub mod Building
