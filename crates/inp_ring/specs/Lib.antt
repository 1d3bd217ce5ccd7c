pub mod Class
pub mod Store
pub mod Ring
