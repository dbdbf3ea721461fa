-- Definitions that the contracts cite: the places of a list, and the pointers to a place counted.
pub mod Places
pub mod Counting
