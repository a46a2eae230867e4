pub mod ChildRuns
pub mod Columns
pub mod NestedGrown
pub mod Parts
pub mod Taken
pub mod TypeNodes
