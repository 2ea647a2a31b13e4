pub mod Blocks
pub mod Internal
