pub mod Behind
pub mod Due
pub mod Meanings
pub mod MockReads
pub mod Numbers
pub mod Parsing
pub mod Walk
