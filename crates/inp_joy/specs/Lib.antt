pub mod JoyRecord
pub mod Codes
pub mod Picture
pub mod Joy
pub mod Reads
pub mod JoyState
pub mod Laws
pub mod Examples
