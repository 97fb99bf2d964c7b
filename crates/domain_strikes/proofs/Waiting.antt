pub mod Standing
pub mod Listed
pub mod Struck
pub mod Alike
pub mod Parts
mod Rows
