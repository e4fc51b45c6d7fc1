-- A front part filled, element by element.
mod Filled
