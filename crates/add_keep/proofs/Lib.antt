-- Laws that belong to no one function: the words after a cell or a scene more, that they are still a store's, and lists cut back.
pub mod Ways
pub mod Headers
pub mod Stored
pub mod Cutting
