-- Definitions that the contracts cite: whether a file opens to numbers.
pub mod Compared
