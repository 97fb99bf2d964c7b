pub mod Cells
pub mod Marks
pub mod Asking
pub mod Waiting
pub mod Picking
mod Leaving
