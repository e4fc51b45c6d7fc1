pub mod ImportSays
