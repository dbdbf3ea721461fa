-- a box of a leaf
pub mod LeafBox
