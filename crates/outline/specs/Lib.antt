-- Definitions that the contracts cite: records by position.
pub mod Positions
