pub mod Fronts
pub mod Inspecting
pub mod Running
pub mod Scripts
pub mod Trees
