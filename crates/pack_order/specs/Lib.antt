-- Definitions that the contracts cite: the order in scratch, and the steps to it.
pub mod OrderParts
