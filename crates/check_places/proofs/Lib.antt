-- The law of places, and what the walk over a pattern comes to.
pub mod Places
pub mod Walking
pub mod Sides
