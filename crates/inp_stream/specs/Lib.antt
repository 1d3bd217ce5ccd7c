pub mod Stream
pub mod Form
pub mod Examples
