-- Definitions that the contracts cite: the bytes of a scene's records, lists and sizes.
pub mod Writing
