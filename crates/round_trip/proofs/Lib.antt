pub mod Bytes
pub mod Operands
pub mod Lines
pub mod RoundTrip
