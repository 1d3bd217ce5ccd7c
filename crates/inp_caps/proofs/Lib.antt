pub mod Filters
pub mod Moves
pub mod Rings
pub mod Supported
