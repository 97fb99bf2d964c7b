pub mod Strikes
pub mod Offs
pub mod Items
pub mod Mocked
pub mod Numbers
pub mod Histories
mod WorkedRuns
