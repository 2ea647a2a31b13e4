pub mod Choice
pub mod Refusals
pub mod Ascii
pub mod Buffers
pub mod Internal
