-- Values to numbers and back, in the letters' order.
pub mod Numbering
-- Letters and numbers for a T line of a file's rows: the refusals in order, and what is given.
pub mod Outcomes
-- The services, with every lent area.
pub mod Services
