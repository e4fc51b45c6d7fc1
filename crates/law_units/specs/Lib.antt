pub mod Units
pub mod Backward
pub mod Apart
pub mod Faults
pub mod Calls
pub mod Examples
