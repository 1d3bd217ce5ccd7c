pub mod BitsOf
pub mod Differences
pub mod Indices
