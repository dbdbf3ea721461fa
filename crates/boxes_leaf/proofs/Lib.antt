-- the masks of the axes, and a leaf's ones
pub mod Masks
pub mod Ones
