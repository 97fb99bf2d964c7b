pub mod Fronts
pub mod Groups
mod Interning
pub mod JoiningLemmas
mod Places
pub mod RaisedLaws
mod Rows
pub mod Scanning
