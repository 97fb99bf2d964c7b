pub mod Outlined
pub mod Building
pub mod Generating
pub mod ScriptsRead
pub mod ScriptsWhole
