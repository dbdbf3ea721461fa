-- Laws that belong to no one function: slots in bytes, slots exchanged and mixed, heaps put in order, and what neighbours tell.
pub mod SlotBytes
pub mod Exchanges
pub mod Mixing
pub mod Heaping
pub mod Telling
pub mod Sorting
