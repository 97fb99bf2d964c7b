pub mod Counting
pub mod Locking
pub mod Using
