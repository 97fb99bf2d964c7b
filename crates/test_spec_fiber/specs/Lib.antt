pub mod Replied
pub mod Runs
