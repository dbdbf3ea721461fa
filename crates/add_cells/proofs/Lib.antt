-- Laws that belong to no one function: a cell found, kept or refused.
pub mod Ways
