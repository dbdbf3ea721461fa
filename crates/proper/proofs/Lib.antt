-- Laws that belong to no one function: the top list, the root's mark, and the ways through a check and through a headset check.
pub mod Top
pub mod Root
pub mod Checking
pub mod Headset
