pub mod RowLists
pub mod PartSteps
