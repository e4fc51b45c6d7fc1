pub mod WitnessSays
