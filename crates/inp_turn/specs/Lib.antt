pub mod PassView
pub mod Turn
pub mod Steps
pub mod Pass
pub mod Shared
