pub mod Numbered
pub mod Opened
pub mod Standing
pub mod Texted
pub mod Unflat
pub mod ScriptCode
pub mod ScriptInside
