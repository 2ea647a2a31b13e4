pub mod Lines
pub mod Words
pub mod Openings
pub mod Texts
