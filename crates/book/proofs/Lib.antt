pub mod Firsts
pub mod Each
pub mod Numbers
pub mod Balances
pub mod Calls
pub mod Stays
