-- Laws that belong to no one function: writing one behind the other; records, lists and sizes in their parts.
pub mod Behind
pub mod KeptWords
pub mod Pieces
