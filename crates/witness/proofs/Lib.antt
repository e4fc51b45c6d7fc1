-- What the service answers and leaves in the areas, case by case, against its definition.
pub mod Serving
