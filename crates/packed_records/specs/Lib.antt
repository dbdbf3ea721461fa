-- Definitions that the contracts cite: one record as code reads it.
pub mod Records
