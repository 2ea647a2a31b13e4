pub mod Effects
pub mod Texts
pub mod Nesting
pub mod Call
