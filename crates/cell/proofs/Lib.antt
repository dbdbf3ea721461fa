-- the walk to a cell's list, or to its leaf
pub mod Pointers
pub mod Cells
-- the eight bits of a cube in a leaf
pub mod Cubes
-- the ways through the question
pub mod CellTests
