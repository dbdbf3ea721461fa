-- Laws that belong to no one function: what an answer tells, and that one outcome fits each call.
pub mod Told
pub mod OneOutcome
