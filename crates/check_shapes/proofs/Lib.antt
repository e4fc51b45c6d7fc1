-- Laws about the trees that the table's lines unfold to: same type and let shapes.
pub mod Sameness
pub mod Plainness
