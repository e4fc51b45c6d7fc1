-- How many values a type has, told up to a cap.
pub mod Counting
-- The counts of the first T lines, found one after the other.
pub mod Filling
-- The number of a value that stands at a place.
pub mod Ranking
-- The letters of the value with a number.
pub mod Spelling
-- The T lines of a file in the table.
pub mod TypeLines
