pub mod Words
pub mod Faults
pub mod Demands
pub mod Requests
pub mod Pins
