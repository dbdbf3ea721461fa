-- Laws that belong to no one function: bits that change places, a leaf whose bits are so moved, and the ones of a number.
pub mod Moving
pub mod Ones
