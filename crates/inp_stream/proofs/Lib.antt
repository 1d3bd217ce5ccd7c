pub mod Spelling
pub mod Writes
