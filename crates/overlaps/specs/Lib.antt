pub mod OverlapSays
