pub mod Lines
pub mod Owner
pub mod Worker
pub mod Joined
pub mod Promise
