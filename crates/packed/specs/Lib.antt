-- Definitions that the contracts cite: what is known of a file whose header is read.
pub mod Headers
