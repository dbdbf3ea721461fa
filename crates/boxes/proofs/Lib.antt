-- what is counted of a box
pub mod Parts
-- the ways through the call
pub mod BoxTests
