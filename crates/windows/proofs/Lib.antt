pub mod Lists
pub mod Outputs
pub mod Shows
pub mod OnePerWindow
