-- Definitions that the contracts cite: the parts of pack's scratch, and their words.
pub mod Parts
pub mod Tables
