-- Laws that belong to no one function: what code finds is the packed file, and it is laid over the output.
-- a file's header
pub mod Heads
-- what code finds is the packed file
pub mod Renumbering
pub mod Scenes
pub mod Packings
-- the call
pub mod Ways
