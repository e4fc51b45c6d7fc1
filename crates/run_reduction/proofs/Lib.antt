-- Table, index and direction.
pub mod Laying
-- The reduction in the work area.
pub mod Framing
pub mod Lengths
