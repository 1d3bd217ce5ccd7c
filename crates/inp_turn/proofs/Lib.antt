pub mod Prefixes
pub mod Places
pub mod Sums
pub mod KeptRule
pub mod ClosedTurn
pub mod Seats
