pub mod Below
pub mod Changes
pub mod Faults
pub mod Laws
pub mod Leading
pub mod Nodes
pub mod Order
