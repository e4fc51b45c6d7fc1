-- Letters that are copied within an area.
pub mod Copying
-- The closed value of a type that stands at a place.
pub mod Typing
-- A value with nothing behind it.
pub mod Alone
-- The environment in ranges of letters against slots of values.
pub mod Agreeing
-- The reduction as the code makes it.
pub mod Tracing
