-- What the marks tell, and the walk row by row.
pub mod Marking
