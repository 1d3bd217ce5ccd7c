pub mod Steps
pub mod Passes
pub mod Arms
pub mod Flags
