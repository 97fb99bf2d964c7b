pub mod Legal
pub mod Waits
pub mod Both
