-- rows searched and stored
pub mod Finding
-- an area that follows the definition's rows
pub mod Tracking
