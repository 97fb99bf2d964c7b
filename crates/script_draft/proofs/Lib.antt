pub mod Counting
pub mod Counts
pub mod Cursors
pub mod ScopesSeen
pub mod Steps
pub mod TextsAhead
pub mod Within
