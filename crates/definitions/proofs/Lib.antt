pub mod Finds
pub mod Walks
pub mod Admission
pub mod Cells
