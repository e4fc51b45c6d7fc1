pub mod Between
pub mod Inverted
pub mod Answers
pub mod Reached
pub mod Served
