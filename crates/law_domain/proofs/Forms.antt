pub mod Steps
pub mod Statements
pub mod FeatureScripts
pub mod GroupForms
pub mod Rows
mod Worked
