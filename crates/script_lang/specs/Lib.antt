pub mod Outlines
pub mod ScriptsRead
