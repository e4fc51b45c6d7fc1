-- What answers a line.
pub mod Answering
