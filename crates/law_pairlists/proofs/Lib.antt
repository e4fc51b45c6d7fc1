-- rows written each once
pub mod Rows
-- request 11: no line of a written file is idle
pub mod Used
-- the rows of a written file
pub mod File
-- its iso
pub mod Iso
-- the list
pub mod List
-- what import gives
pub mod Imports
-- what export gives
pub mod Exports
-- what Run answers of both; the refusals in order
pub mod Runs
-- no equal line twice
pub mod Once
-- what is wrong with a bad list
pub mod BadLists
-- the services
pub mod Services
-- lists with other endings
pub mod Endings
