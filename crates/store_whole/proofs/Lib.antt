-- Laws that belong to no one function: a call that leaves by an error, usable cells and the store's parts, unused words, counts, chains.
pub mod Leaving
pub mod Usable
pub mod Spare
pub mod Counting
pub mod Links
pub mod ChainLists
