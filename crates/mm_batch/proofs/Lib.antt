pub mod Joining
pub mod Watches
