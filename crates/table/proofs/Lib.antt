pub mod Check
pub mod Readback
pub mod Lent
pub mod Written
