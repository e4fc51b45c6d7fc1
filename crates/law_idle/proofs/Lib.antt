-- verdicts and idle lines
pub mod Former
-- every service
pub mod Services
