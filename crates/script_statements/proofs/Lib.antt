pub mod BodiesRead
pub mod BranchesRead
pub mod ExpressionsFound
pub mod ExpressionsRead
pub mod FormsRead
pub mod LeavesRead
pub mod StatementsRead
