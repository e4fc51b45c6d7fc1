-- What the loops of the crate have reckoned so far.
pub mod Reckoning
