-- the checker with 32 clauses
pub mod Former
-- the line at which it refuses what only 128 admit
pub mod Over
pub mod Examples
