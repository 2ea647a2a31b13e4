pub mod Compile
pub mod Internal
