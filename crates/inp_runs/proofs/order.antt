-- What comes of lines in file order is promised.
pub mod Calls
pub mod LineDone
pub mod Stages
pub mod OwnedStages
pub mod Rounds
pub mod Promised
pub mod Alone
