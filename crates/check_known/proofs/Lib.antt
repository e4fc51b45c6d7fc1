-- The law of a kept fit, and the loops that keep and use it.
pub mod Meets
pub mod Keeping
pub mod Looking
