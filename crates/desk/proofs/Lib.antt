-- The line of a refusal, and the lengths of answers.
pub mod Placing
-- Bytes that are kept, up to a ceiling.
pub mod Holding
-- The lines that answer a file and a query.
pub mod Answering
-- One byte, the bytes of a chunk, and the end of the input.
pub mod Feeding
-- Where the rest of the input no longer matters.
pub mod Settling
