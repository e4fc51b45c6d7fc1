pub mod Written
pub mod TurnSays
