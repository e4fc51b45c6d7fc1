-- How many places a file takes; what a store keeps; what each row adds; the walk over the rows.
pub mod Counting
pub mod Agreeing
pub mod Adding
pub mod Indexing
-- Behind the index.
pub mod Tails
