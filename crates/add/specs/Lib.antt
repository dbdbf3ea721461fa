-- Definitions that the contracts cite: a file's scene added.
pub mod SceneAdding
