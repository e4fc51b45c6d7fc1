pub mod BoundsSays
