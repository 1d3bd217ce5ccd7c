pub mod Computation
pub mod Cuts
mod Decimals
pub mod FirstWords
mod Hexadecimals
pub mod NameWords
pub mod Numerals
mod Pages
pub mod Sixteen
pub mod Written
