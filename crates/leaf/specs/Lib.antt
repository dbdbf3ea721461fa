-- A leaf whose bits change places.
pub mod Moves
