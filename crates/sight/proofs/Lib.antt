-- the walk by its steps and its cells, and the path that it leaves
pub mod Cells
pub mod Descents
pub mod Sharing
-- a line, turn by turn
pub mod Tracing
pub mod Sighting
