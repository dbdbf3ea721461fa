-- The samples, computed.
pub mod Samples
