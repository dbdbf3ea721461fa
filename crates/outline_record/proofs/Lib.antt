-- Laws that belong to no one function: writing one part behind the other, a record in its parts, its length, and that it is the room's.
pub mod Behind
pub mod Parts
pub mod Lengths
pub mod ByVoxels
