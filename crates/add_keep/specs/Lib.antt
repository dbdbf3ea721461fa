-- Definitions that the contracts cite: the words after a cell more, a scene more, and after lists are cut back.
pub mod Keeping
