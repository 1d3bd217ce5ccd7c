-- What the canonical text of a record is.
pub mod Words
pub mod Command
pub mod Device
pub mod Text
pub mod Examples
