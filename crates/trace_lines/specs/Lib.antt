pub mod Exits
pub mod HistoryTexts
pub mod Names
pub mod TraceTexts
