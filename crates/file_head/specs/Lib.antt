-- The first bytes of a file: their tests in order, and as written.
pub mod Heads
