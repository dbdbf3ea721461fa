-- a question's refusals in their order, and what an entry says of them
pub mod Asked
pub mod Settled
pub mod Entries
pub mod Entering
