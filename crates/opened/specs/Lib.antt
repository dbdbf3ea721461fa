-- Definitions that the contracts cite: a question on what an opening leaves.
pub mod Asked
