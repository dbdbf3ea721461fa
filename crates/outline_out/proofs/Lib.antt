-- Laws that belong to no one function: a root's record and a scene's file, that they are the room's outline, and the ways through the call.
pub mod Scenes
pub mod Outlines
pub mod Ways
