pub mod Scan
pub mod Walks
