pub mod Command
pub mod Number
pub mod Request
pub mod Usage
pub mod Examples
pub mod WordsFault
