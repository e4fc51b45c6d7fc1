pub mod SheetSays
pub mod Answering
