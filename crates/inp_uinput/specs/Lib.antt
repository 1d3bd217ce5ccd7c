pub mod UdevView
pub mod FeedbackTurn
pub mod KeptBeside
pub mod Maker
pub mod OwnedFeeds
pub use Rattle.inp_device.specs.Queries
