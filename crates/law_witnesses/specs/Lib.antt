pub mod Showing
pub mod Served
pub mod Shapes
pub mod Seeking
pub mod Examples
