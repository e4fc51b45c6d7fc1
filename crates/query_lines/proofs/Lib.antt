-- The desk program as a machine.
pub mod Streaming
-- A query's line: its fields, its letters and its ending.
pub mod Asking
-- The lines that answer.
pub mod Answering
