-- Definitions that the contracts cite: whom a file is for; what is ready once a scene is prepared.
pub mod Profiles
pub mod Ready
