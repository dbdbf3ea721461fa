-- Laws that belong to no one function: how many digits a number has.
pub mod Digits
