pub mod Player
pub mod GatheredRuns
