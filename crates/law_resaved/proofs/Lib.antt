-- overlap, bounds, export, import and play
pub mod Alike
