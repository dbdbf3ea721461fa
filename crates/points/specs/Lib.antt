-- a struct of three coordinates as a point
pub mod Points
-- what a walk by numbers says of a point
pub mod Seeing
