pub mod Working
pub mod Loads
pub mod Crews
pub mod Kept
pub mod Submitting
pub mod Finishing
