pub mod Runs
pub mod SightCounts
pub mod ReadLine
pub mod Actors
pub mod AxisCounts
pub mod Entries
pub mod Computation
