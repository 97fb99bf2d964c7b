pub mod Causes
pub mod Devices
pub mod Input
pub mod MemSinkInside
pub mod OutInside
pub mod Outcome
pub mod Passing
