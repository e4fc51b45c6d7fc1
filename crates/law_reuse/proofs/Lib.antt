-- The typing of Table 1, and the variables rule with an assignment of types to bindings.
pub mod Histories
pub mod Bindings
-- The former rule and today's.
pub mod Former
