pub mod Rules
pub mod Internal
