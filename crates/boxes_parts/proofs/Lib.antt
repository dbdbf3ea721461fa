-- a box by its corners, and its part in a child
pub mod Corners
pub mod Cuts
