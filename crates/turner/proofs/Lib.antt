-- A row of the table as the turned file has it; the L rows below a row; what is written up to some row.
pub mod Exchanging
pub mod Blocks
pub mod Lets
pub mod Turning
-- The answer, against the model's Turn.
pub mod Answers
