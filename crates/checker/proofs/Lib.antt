-- What Check answers and leaves in the areas, case by case.
pub mod Checks
-- What an accepted file says of the areas.
pub mod Whole
-- What a service that goes on from Check answers and leaves.
pub mod Going
