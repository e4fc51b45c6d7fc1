-- the tests
pub mod Testing
-- a line, and all lines
pub mod Lines
-- an accepted file
pub mod Whole
