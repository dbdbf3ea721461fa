-- Definitions that the contracts cite: matching and the rules of a record by marks, and places laid over a share.
pub mod Matching
pub mod Shares
