-- Definitions that the contracts cite: a cell's record by its pointers.
pub mod Record
