pub mod CheckSays
