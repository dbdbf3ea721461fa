-- the path to a voxel, and what a line meets along its walks
pub mod Paths
pub mod Tracing
