-- The run of one setting, and its to.
pub mod Sending
-- The loop over the pairs.
pub mod Finding
