pub mod Entries
pub mod Served
pub mod Turn
pub mod Port
