-- the part of a box in a cell
pub mod Parts
