-- Laws that belong to no one function: the ways through the calls.
pub mod Ways
