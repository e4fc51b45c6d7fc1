pub mod Serving
pub mod Leaving
pub mod Faults
pub mod Demands
pub mod Requests
