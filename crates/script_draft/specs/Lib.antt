pub mod Ahead
pub mod Drafts
pub mod Levels
pub mod Names
pub mod Readings
pub mod Taken
