-- Bytes laid over a part of a slice, and the position after them.
pub mod Laid
