-- the marks, counted
pub mod Marks
-- the cases of the service
pub mod Serving
-- the marks counted: the service
pub mod Playing
