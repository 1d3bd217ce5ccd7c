-- What the definitions of this crate compute on short histories that were worked out by hand.
pub mod Frames
pub mod Axes
pub mod Clients
pub mod Filters
pub mod Injections
pub mod Queries
pub mod Repeats
pub mod Slots
