-- Definitions that the contracts cite: all rules by places and marks.
pub mod Rules
