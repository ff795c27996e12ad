pub mod Limits
pub mod Trades
pub mod Deals
pub mod Books
pub mod Totals
pub mod Sums
