pub mod Marked
pub mod Rules
pub mod Growth
pub mod Editions
