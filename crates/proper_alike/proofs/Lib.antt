-- Laws that belong to no one function: pointers and records by their rules, keys and matching, and what lies in slots.
pub mod Pointing
pub mod Keyed
pub mod Slotted
pub mod Front
