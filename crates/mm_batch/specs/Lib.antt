pub mod Joining
pub mod Watching
