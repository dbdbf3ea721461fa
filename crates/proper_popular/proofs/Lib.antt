-- Laws that belong to no one function: where the lists of a file lie, loops along a list, counters and what they come to, and each list's share of
-- the scratch.
pub mod Along
pub mod Counts
pub mod Falls
pub mod Starts
pub mod Loops
pub mod Shares
