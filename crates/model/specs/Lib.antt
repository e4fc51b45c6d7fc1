pub mod Services
pub mod Desk
pub mod Sheet
pub mod Cases
pub mod Readings
pub mod Zones
pub mod Answers
pub mod Examples
