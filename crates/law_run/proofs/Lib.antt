pub mod Beginnings
pub mod Moves
pub mod Meanings
pub mod Places
pub mod Settling
pub mod Rows
pub mod Outside
pub mod Standings
pub mod Raising
pub mod Answering
pub mod Preparing
pub mod Sharing
pub mod Raises
pub mod Serials
mod Worked
