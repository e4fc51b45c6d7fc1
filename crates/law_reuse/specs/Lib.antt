pub mod Bindings
pub mod Former
pub mod Examples
