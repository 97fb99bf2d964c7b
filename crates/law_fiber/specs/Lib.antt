pub mod Calls
pub mod Kinded
pub mod Texts
