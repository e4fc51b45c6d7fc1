-- the services without what request 14 adds
pub mod Before
-- files without lists and self-calls
pub mod Unzoned
-- every service, then and now
pub mod AsBefore
pub mod Examples
