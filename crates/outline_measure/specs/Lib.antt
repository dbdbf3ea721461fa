-- Definitions that the contracts cite: a kept cell, and the length of its record, with a limit.
pub mod Measure
