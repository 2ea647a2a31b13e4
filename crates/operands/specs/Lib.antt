pub mod Operands
pub mod Internal
