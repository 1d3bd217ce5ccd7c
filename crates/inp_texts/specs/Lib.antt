pub mod Code
pub mod Digits
pub mod Examples
pub mod Line
pub mod Number
pub mod Table
pub mod Texts
