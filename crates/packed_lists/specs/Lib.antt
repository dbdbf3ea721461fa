-- Definitions that the contracts cite: the header and its sizes, where a list ends.
pub mod Header
pub mod Ends
