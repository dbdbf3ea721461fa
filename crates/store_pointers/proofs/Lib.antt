-- Laws that belong to no one function: a cell's test, mirrored pointers, a key added up.
pub mod Usable
pub mod Turned
pub mod KeySums
