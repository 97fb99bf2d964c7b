pub mod BuiltForms
pub mod Scopes
pub mod SoundStates
pub mod Laws
pub mod Conditions
