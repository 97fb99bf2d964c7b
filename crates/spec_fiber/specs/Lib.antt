pub mod Evaluation
pub mod Asks
pub mod Work
pub mod Silent
pub mod Settling
pub mod Replies
pub mod Numbered
