pub mod Comparison
pub mod Overlap
pub mod Walking
pub mod Examples
