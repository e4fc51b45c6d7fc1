pub mod ExportSays
