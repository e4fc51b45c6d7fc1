pub mod ClauseTold
