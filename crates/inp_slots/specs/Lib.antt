pub mod Slots
pub mod Slot
pub mod Contact
pub mod Changes
pub mod Kept
