-- Every claim in order, and one outcome for each call.
pub mod Claims
pub mod OneOutcome
