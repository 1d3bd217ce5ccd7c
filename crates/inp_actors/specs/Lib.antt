pub mod Name
pub mod Command
pub mod Record
pub mod Kept
