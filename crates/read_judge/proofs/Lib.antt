-- The tests of a row; its refusal.
pub mod Testing
pub mod Judging
