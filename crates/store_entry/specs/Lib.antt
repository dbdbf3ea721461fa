-- a scene entered
pub mod Entry
-- what entering answers
pub mod Entering
