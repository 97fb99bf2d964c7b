pub mod Rows
pub mod Fates
pub mod Coming
pub mod Steps
pub mod Induction
pub mod Merging
pub mod Marks
pub mod Waiting
pub mod LinesOfCalls
pub mod Entering
pub mod LegalRuns
pub mod Longer
mod WorkedRun
