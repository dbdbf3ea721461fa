-- That the rules by places and marks are the paper's: starts, pointers to them, marks, and each rule in turn.
pub mod Starting
pub mod Arrows
pub mod MarksAre
pub mod Named
pub mod Apart
pub mod LowTags
pub mod ByPlaces
pub mod Rules
