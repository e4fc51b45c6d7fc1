-- a line of a script
pub mod Line
-- all of them
pub mod Script
