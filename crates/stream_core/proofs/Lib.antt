pub mod Sides
pub mod Taking
