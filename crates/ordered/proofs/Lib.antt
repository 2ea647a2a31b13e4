pub mod Finds
pub mod Checks
