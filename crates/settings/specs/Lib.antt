pub mod SettingSays
