-- Laws that belong to no one function: matching by symmetries, and the search.
-- matching by symmetries
pub mod SymmetryImage
pub mod SymmetryWays
-- seeking
pub mod FindFirst
pub mod FindChain
pub mod ChangingBits
pub mod FindLeaves
pub mod FindCells
pub mod FindSymmetries
