pub mod Standing
mod Worked
