-- Definitions that the contracts cite: slots, the heap over them, and what the steps of the sort leave.
pub mod Slots
pub mod Heaps
pub mod Sorting
