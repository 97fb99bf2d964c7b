pub mod Causes
pub mod Due
pub mod Faults
pub mod Objects
pub mod Scripts
pub mod Today
pub mod Turning
