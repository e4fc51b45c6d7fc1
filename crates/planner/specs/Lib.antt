pub mod PlaySays
