pub mod Offs
pub mod Items
pub mod Skips
pub mod Waits
pub mod Contexts
pub mod SwitchCalls
pub mod SwitchLaws
