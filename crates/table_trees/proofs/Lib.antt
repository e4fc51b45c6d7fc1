-- Laws about the nodes of each kind, and the trees that the table's lines unfold to.
pub mod Cases
pub mod Unfolding
pub mod Lines
