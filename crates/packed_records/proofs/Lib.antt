-- Laws that belong to no one function: one record, and its codes added.
pub mod Records
pub mod CodeSums
