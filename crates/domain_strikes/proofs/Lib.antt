pub mod Owed
pub mod Waiting
