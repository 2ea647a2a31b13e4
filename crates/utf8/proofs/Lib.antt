pub mod Positions
pub mod Utf8
