-- the walk by numbers is the walk by coordinates
pub mod Ends
pub mod Roots
-- the ways through a walk, and a voxel question by its end
pub mod Steps
pub mod Voxels
