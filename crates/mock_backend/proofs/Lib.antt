pub mod Undeclared
pub mod Runs
pub mod Endings
pub mod Inputs
pub mod Running
pub mod Answered
pub mod EndCauses
pub mod BodyTexts
pub mod Whole
pub mod TurnsMove
mod DueRows
