-- Definitions that the contracts cite: what seeking answers.
pub mod Sought
