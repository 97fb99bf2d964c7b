pub mod Read
pub mod Judge
pub mod Run
