pub mod Naming
pub mod Checks
pub mod Select
pub mod Slots
pub mod Wanted
