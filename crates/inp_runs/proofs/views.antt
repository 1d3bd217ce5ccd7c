-- At each report that a job took, its view is its client's in the history.
pub mod JobClients
pub mod TapViews
pub mod ClientReadings
pub mod ClientReports
pub mod JobViews
pub mod Reports
pub mod AtHand
pub mod Folded
pub mod Shown
