-- Laws that belong to no one function: the ways through a packed voxel question.
pub mod Ways
