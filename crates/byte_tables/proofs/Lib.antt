pub mod Reader
pub mod Compile
pub mod Cells
pub mod Refusals
