pub mod Cells
pub mod View
pub mod ClientView
pub mod Synchronised
pub mod Undisturbed
pub mod Faithful
pub mod Examples
pub mod FaithfulExamples
