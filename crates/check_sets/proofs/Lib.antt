-- The digits of words, and the sets that they make up.
pub mod Digits
pub mod Sets
