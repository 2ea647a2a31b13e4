pub mod WholeWalks
pub mod Replies
pub mod Buffers
