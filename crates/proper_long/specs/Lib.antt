-- Definitions that the contracts cite: long pointers by codes, and what is known of a file gone along for them.
pub mod Longs
