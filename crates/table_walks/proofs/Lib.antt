-- Laws of a walk over the rows of a file that was read.
pub mod Rows
pub mod Tails
pub mod Walking
pub mod Named
