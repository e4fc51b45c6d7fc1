-- rows printed one after the other
pub mod Printing
-- the rows of a file, and its bytes
pub mod Making
