-- Laws of clauses, for the proofs of this crate.
pub mod ClauseLaws
pub mod Live
pub mod Bare
