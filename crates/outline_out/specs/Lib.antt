-- Definitions that the contracts cite: a scene's outline by its pointers, and what is known of a scene that is written.
pub mod File
