pub mod Forms
pub mod Sound
pub mod Kinded
pub mod Well
pub mod Scopes
pub mod Texts
