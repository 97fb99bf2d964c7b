pub mod Variables
pub mod Going
pub mod Statements
pub mod Settling
pub mod Growing
pub mod Between
pub mod Rows
