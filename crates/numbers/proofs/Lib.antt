-- Laws that belong to no one function.
pub mod Sums
pub mod Reading
pub mod Laying
