pub mod Resaved
