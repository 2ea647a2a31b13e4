pub mod Rising
pub mod Halving
pub mod Building
