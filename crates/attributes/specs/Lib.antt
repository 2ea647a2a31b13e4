pub mod Cells
pub mod Reader
pub mod Compile
pub mod Internal
