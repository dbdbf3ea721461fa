-- Laws that belong to no one function: searches, the places along a list, the lists in the file, and the lowest tag.
pub mod Searches
pub mod Along
pub mod InFile
pub mod Tags
