-- Definitions that the contracts cite: a file's records added.
pub mod RecordAdding
