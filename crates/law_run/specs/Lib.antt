pub mod Beginnings
pub mod Moves
pub mod Meanings
pub mod Exceptions
pub mod Serials
