pub mod Device
pub mod FrameFilters
pub mod Handler
pub mod Present
pub mod Queries
