-- Laws of the sides of an iso, for the proofs of this crate.
pub mod SideLaws
