-- What the loops of the crate have told so far.
pub mod Marking
