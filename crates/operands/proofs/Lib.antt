pub mod Operands
pub mod InRange
