-- Whether a lent area is short, and three numbers stored.
pub mod Storing
-- One query, and all of them, one line after the other.
pub mod Answering
-- The call, case by case.
pub mod Calling
