pub mod Grounds
pub mod Limits
pub mod Rounding
pub mod Prices
pub mod SeatSums
