-- The overlap of two P lines on a checked table and as a service, against its definition.
pub mod Lines
pub mod Serving
