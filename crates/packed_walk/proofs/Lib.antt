-- Laws that belong to no one function: one step of the walk, the lists of a file, the walk list by list.
pub mod Steps
pub mod Lists
pub mod Walking
