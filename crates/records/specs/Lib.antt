pub mod Layout
pub mod Reading
pub mod Writing
pub mod Tapes
pub mod Text
pub mod Decoding
