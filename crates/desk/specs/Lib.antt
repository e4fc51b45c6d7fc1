pub mod DeskSays
