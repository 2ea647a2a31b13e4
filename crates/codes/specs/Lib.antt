pub mod Codes
pub mod Internal
