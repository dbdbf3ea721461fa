-- Laws that belong to no one function: a record's clauses, what stays as it was, and that taking a file's records is the paper's adding.
pub mod Ways
pub mod Lasting
pub mod CubeBound
pub mod Wholes
pub mod Turns
-- taking stands as adding: what that means, then a cell, its children in turn, a record
pub mod Settings
pub mod SettingWords
pub mod Standing
pub mod CellStanding
pub mod KnownChildren
pub mod TreesInTurn
pub mod ChildrenStanding
pub mod RecordStanding
