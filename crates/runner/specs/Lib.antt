pub mod RunSays
