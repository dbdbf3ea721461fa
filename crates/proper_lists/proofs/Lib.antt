-- Laws that belong to no one function: marks written, groups of mirrors, the scratch list by list, and the cuts in it.
pub mod Marks
pub mod Along
pub mod Groups
pub mod Scratch
pub mod Cuts
