-- Definitions that several crates' contracts cite.
pub mod Symmetries
pub mod Lines
pub mod Chains
pub mod InOrder
