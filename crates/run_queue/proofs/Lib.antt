pub mod Standing
pub mod GoingOff
