-- each service by its file's verdict
pub mod ByVerdict
-- what each answers for a refused file
pub mod Refused
-- all of them at once
pub mod Services
