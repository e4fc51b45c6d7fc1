-- each service is its form with the verdict of its file
pub mod ByVerdict
-- what each answers for a refused file
pub mod Refused
-- all of them at once
pub mod Services
