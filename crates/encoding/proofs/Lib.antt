pub mod Forms
pub mod Reading
pub mod Encoding
pub mod Plain
pub mod Words
