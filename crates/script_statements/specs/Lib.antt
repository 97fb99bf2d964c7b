pub mod Blocks
pub mod Bodies
pub mod Captured
pub mod ExpressionHeads
