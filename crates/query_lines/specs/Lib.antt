pub mod Views
pub mod Stream
