-- Definitions that the contracts cite: what testing the counts asks, and what following a chain answers.
pub mod Counts
pub mod Following
