pub mod Calls
pub mod Declaring
pub mod Failures
pub mod Faults
pub mod Flat
pub mod Heads
pub mod Words
