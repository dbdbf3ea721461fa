-- Laws that belong to no one function: words that are zero, the header, a scene's test, where cells and the words of chains lie, words stored in place,
-- an answer given up by `?`.
pub mod Blank
pub mod HeaderFacts
pub mod SceneTests
pub mod Positions
pub mod ChainPlaces
pub mod InPlace
pub mod Refused
