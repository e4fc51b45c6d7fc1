-- accepted files with their carriage returns taken out, and turned twice
pub mod Feeds
-- lines with other endings
pub mod Lines
-- the services, a sheet and the desk program on bytes with other endings
pub mod Alike
-- a setting that shows the fault
pub mod Witnesses
-- what is printed has no carriage return
pub mod Printed
