pub mod Dots
pub mod Internal
