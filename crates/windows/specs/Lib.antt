pub mod Windows
pub mod OnePerWindow
pub mod Internal
