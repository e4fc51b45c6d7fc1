-- The rule of a clause by the kinds of lines, and the loops over L rows.
pub mod Laws
pub mod Rows
