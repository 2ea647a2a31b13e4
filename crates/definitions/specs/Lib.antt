pub mod Definitions
pub mod Effects
