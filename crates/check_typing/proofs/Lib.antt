-- Laws of the types that variables take, and the tests of a clause against the model's.
pub mod Meeting
pub mod Rules
pub mod Steps
