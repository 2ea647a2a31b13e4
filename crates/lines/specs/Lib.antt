pub mod Lines
pub mod Words
pub mod Texts
pub mod Internal
