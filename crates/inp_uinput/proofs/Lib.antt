pub mod PassedOutputs
pub mod SentEvents
pub mod ServedEntries
pub mod Udevs
pub mod Tied
