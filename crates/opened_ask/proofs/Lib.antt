-- Laws that belong to no one function: two lists compared, and the ways through the question.
pub mod SameLists
pub mod Askings
