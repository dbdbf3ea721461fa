-- Laws that belong to no one function: the least image, and the words of a record.
pub mod Leasts
pub mod Images
pub mod Reading
