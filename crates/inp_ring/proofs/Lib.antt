pub mod Times
pub mod Moves
pub mod Releases
pub mod Walks
pub mod Counts
pub mod Rings
