pub mod Numbers
pub mod Soundness
pub mod Sharing
pub mod Readings
pub mod Meanings
pub mod Printing
pub mod Generated
