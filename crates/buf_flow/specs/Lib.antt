pub mod BufReadInside
pub mod Cuts
pub mod FlowReads
pub mod Histories
pub mod Items
pub mod LineFeeds
pub mod Moves
