pub mod Words
pub mod Internal
