-- A line and its refusal; what the rows tell with one more; the whole file.
pub mod Forms
pub mod Storing
pub mod Keeping
pub mod Reading
pub mod Filing
