-- Laws about the counts of nodes.
pub mod Counts
