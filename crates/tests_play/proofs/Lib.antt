pub mod FullDevice
pub mod Clients
