-- What the bounds on a checked table, and the service, tell.
pub mod Telling
