pub mod PairLists
pub mod BadLists
pub mod Examples
