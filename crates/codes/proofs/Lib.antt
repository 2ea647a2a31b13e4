pub mod Codes
pub mod WholeTables
