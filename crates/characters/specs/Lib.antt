pub mod Characters
pub mod Internal
