pub mod Cutting
pub mod Deciding
pub mod Interleaving
pub mod Lines
pub mod Moving
