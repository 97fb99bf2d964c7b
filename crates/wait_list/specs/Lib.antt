pub mod Lists
pub mod Finding
pub mod Standing
pub mod Waits
pub mod MemSending
pub mod Meeting
