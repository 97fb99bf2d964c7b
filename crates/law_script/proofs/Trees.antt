pub mod Steps
pub mod Gaps
pub mod Texts
pub mod Numbers
pub mod Runs
pub mod Read
pub mod Back
pub mod Canonical
mod Worked
