-- leaves, and the children of a cell
pub mod LeafWays
pub mod Sharing
pub mod Naming
-- cells wholly inside
pub mod Few
pub mod WholeWays
-- cells that the box shares some voxels with
pub mod PartWays
-- the call
pub mod SceneWays
