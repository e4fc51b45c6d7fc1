-- the reading
pub mod Reading
-- isos of such files: no list, no call of itself
pub mod Listless
-- what is asked of their rows
pub mod Asked
-- every service
pub mod Services
