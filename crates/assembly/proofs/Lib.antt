mod Spread
mod Taking
