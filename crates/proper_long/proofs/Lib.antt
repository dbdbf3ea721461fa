-- Laws that belong to no one function: the codes of a header, and the lists in the file.
pub mod Codes
pub mod Lists
