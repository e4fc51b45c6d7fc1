-- on trees, on rows, on lines
pub mod Alike
pub mod Costs
pub mod Moving
pub mod Reading
-- on files
pub mod Files
pub mod Services
pub mod Refused
pub mod Unmoved
pub mod OneFault
pub mod Witnesses
-- how far the relation reaches
pub mod Orders
pub mod Examples
