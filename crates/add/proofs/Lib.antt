-- Laws that belong to no one function: a file's root, a scene taken, and the refusals before.
pub mod Roots
pub mod RootStanding
pub mod Scenes
pub mod Refusing
