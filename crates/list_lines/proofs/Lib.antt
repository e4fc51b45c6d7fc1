-- one line
pub mod Line
-- all lines
pub mod Reading
