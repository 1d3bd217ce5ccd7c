pub mod Row
pub mod FilterState
pub mod Laws
pub mod Examples
