pub mod Inspections
pub mod Refusals
