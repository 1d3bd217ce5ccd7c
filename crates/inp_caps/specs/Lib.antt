pub mod Builder
pub mod Caps
pub mod Disposition
