-- The comparison of two patterns: its laws, and what the walk over two P lines comes to.
pub mod Comparing
pub mod Overlapping
pub mod Walking
