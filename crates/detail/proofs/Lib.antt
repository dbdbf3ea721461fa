-- Laws that belong to no one function; the claims are in Claims.
pub mod Order
pub mod Double
pub mod Ranges
pub mod Claims
pub mod Greatest
pub mod Ways
