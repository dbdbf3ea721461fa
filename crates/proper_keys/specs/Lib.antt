-- Definitions that the contracts cite: the keys of leaves and records.
pub mod Keys
