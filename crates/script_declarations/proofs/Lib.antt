pub mod ObjectsFound
pub mod DeclarationsRead
pub mod EntriesRead
pub mod FlowStepsRead
