pub mod Ordered
pub mod Parts
pub mod Putting
pub mod Placing
pub mod Taking
pub mod Ways
pub mod Walking
pub mod Keeping
