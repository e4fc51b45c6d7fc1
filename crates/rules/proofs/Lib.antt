-- The lengths of the areas that the loops lend, and the state behind what was read.
pub mod Going
