-- numbers that fit; the cells that a line crosses, and how it leaves them
pub mod Fits
pub mod Cells
pub mod LeavingCells
