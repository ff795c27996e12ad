pub mod Columns
pub mod Limits
pub mod Rules
pub mod Cut
pub mod Remainder
pub mod Cutting
pub mod Remaining
pub mod Ranks
