pub mod WellStates
