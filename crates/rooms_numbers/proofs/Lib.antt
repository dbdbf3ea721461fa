-- Laws that belong to no one function: the ways through each call.
pub mod Ways
