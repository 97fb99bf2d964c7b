pub mod InStep
pub mod Laws
pub mod Parts
pub mod WhoWaits
