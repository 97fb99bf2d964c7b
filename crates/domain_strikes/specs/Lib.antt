pub mod Owing
pub mod Waiting
