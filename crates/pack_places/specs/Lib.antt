-- Definitions that the contracts cite: where the records of a scene come to lie.
pub mod Placing
