pub mod Figures
pub mod Fields
pub mod Lines
pub mod Messages
pub mod Bills
