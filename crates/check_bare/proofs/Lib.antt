-- The marks of a line from those of the lines that it names, and the loops that find them.
pub mod Marking
