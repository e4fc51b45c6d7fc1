pub mod InTable
pub mod Walk
