-- What an owner was told, and whose calls the steps of a device are.
pub mod Owners
pub mod OwnerTalks
pub mod OwnerLaws
