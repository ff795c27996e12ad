pub mod Limits
pub mod Nearest
