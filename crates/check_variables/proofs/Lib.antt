-- Laws of the marks of variables.
pub mod Marking
