pub mod Kinds
pub mod Opening
pub mod Holding
pub mod Calling
pub mod Dead
