-- depths and cubes, and a point seen under a mirror
pub mod Cubes
pub mod Seen
