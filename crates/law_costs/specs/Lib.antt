pub mod Costs
pub mod Bounds
pub mod Examples
