pub mod Computation
pub mod StandsAfterEvents
pub mod Rows
pub mod LetThrough
pub mod RowLaws
pub mod HoldLaws
pub mod LeftOfFrames
pub mod GivenBefore
