pub mod Lines
pub mod Kinds
pub mod Judge
pub mod Table
pub mod Unfold
pub mod Idle
pub mod Examples
pub mod Code
