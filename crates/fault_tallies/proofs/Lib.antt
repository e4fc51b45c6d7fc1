-- Laws of the counts.
pub mod Shifting
pub mod Linear
pub mod Counting
pub mod Lines
pub mod Adding
pub mod Patterns
pub mod Ways
pub mod Laying
pub mod Flowing
