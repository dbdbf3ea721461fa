-- Laws that belong to no one function: codes as digits, places found one behind the other, and where lists end.
pub mod Codes
pub mod Placings
pub mod Runs
pub mod Nears
