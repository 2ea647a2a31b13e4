pub mod Order
pub mod Internal
