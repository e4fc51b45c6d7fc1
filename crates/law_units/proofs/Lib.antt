-- the I line of an iso
pub mod Ends
-- one visit
pub mod Visits
-- the units from visit to visit
pub mod Playing
-- how many
pub mod Counts
-- back again
pub mod Restoring
-- the service
pub mod Services
-- the calls that a visit is
pub mod Calling
-- the refusals
pub mod Faulting
-- two scripts exchanged
pub mod Exchanging
