-- Laws that belong to no one function: openings.
pub mod Openings
