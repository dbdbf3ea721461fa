-- Laws that belong to no one function: a word read after a write, and which words a write leaves.
pub mod Words
pub mod Names
