pub mod Texts
pub mod Agrees
pub mod Traces
