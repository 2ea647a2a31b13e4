pub mod TypedCells
pub mod Calls
