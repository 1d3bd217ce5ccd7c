pub mod Steps
pub mod Passes
pub mod Touches
pub mod Fresh
pub mod Others
