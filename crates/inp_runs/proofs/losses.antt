-- Each loss has its cause.
pub mod Causes
