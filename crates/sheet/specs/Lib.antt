pub mod Limits
pub mod Tables
pub mod Faults
pub mod Awards
pub mod Hourly
pub mod Frames
pub mod Sums
pub mod Readings
