-- Definitions that the contracts cite: what a search asks and finds in a cell.
pub mod Searching
