pub mod Conditions
pub mod Reader
pub mod InRange
