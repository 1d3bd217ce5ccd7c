pub mod Computation
pub mod Lists
pub mod Woven
pub mod Few
