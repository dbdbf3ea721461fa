-- Definitions that the contracts cite: the rules of a list by places and marks, and what phase 1 writes.
pub mod Marking
