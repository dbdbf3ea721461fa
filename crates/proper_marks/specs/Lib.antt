-- Definitions that the contracts cite: the places of a list, and marks.
pub mod Places
pub mod Marks
