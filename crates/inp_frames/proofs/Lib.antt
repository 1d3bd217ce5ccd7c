mod PassedEvents
mod HandledEvents
mod EnteredSteps
mod Releases
pub mod KeptCore
