-- areas that follow the definition while types and values are written
pub mod Following
-- pairs written one after the other
pub mod Pairing
