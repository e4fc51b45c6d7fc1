pub mod Reordered
pub mod Answers
