pub mod Closers
pub mod Attached
pub mod Attaching
pub mod Answers
