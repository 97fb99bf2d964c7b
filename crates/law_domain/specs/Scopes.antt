pub mod Finished
pub mod Released
pub mod Joined
pub mod Handling
