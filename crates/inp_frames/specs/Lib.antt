pub mod Batch
pub mod Core
pub mod Frames
pub mod HandledEvents
