-- the units, one after the other
pub mod Testing
