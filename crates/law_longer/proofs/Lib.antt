-- verdicts
pub mod Former
-- the line of what only the new ceiling admits
pub mod Over
-- imported lists
pub mod Lists
-- every service
pub mod Services
