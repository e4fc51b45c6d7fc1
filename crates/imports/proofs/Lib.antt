-- the two types
pub mod Types
-- the list
pub mod Listing
-- the service
pub mod Serving
