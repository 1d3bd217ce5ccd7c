pub mod Values
mod Pointer
mod Copies
mod Room
mod Along
mod Timely
mod Rest
mod Injected
mod Digits
mod Asked
mod StreamNumbers
mod Described
