pub mod Conditions
pub mod Reader
pub mod Internal
