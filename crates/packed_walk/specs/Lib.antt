-- Definitions that the contracts cite: the walk over two parts of a file, and how it ends.
pub mod Walk
