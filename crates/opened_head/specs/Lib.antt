-- Definitions that the contracts cite: what an opening tells and holds.
pub mod Opens
