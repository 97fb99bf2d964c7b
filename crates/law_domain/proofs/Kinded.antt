pub mod Changing
pub mod Calls
pub mod SwitchCalls
pub mod GroupCalls
pub mod Keeping
pub mod Opening
pub mod Naming
pub mod Worked
