pub mod Growth
pub mod Marked
