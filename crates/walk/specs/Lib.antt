-- the walk by numbers, and what a question reads off its end
pub mod Walk
-- where the code's walk ends
pub mod Reached
