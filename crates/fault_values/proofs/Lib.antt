-- The rows of an iso's clauses, collected from the last to the first.
pub mod Collecting
-- The iso that a line names.
pub mod Heads
-- What shows its fault.
pub mod Faulting
