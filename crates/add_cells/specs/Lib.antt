-- Definitions that the contracts cite: a cell sought or kept.
pub mod CellAdding
