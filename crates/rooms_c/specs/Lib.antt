-- Definitions that the contracts cite: what C passes and is told.
pub mod Exports
