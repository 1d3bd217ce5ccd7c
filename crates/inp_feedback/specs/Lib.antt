pub mod UEntry
pub mod Sent
pub mod Feedback
pub mod KeptList
pub mod Feeds
pub mod Laws
pub mod Examples
