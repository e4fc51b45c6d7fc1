-- The laws of the services, on bytes.
pub mod Files
pub mod Outcomes
pub mod Runs
pub mod Sizes
pub mod Sheets
