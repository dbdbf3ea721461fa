-- Laws that belong to no one function: what a kept cell's pointers name, and the length of a record in its parts.
pub mod KeptCells
pub mod Lengths
