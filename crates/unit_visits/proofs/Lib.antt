-- a visit
pub mod Visiting
-- a setting sent through an iso
pub mod Sending
-- what it leaves
pub mod Storing
