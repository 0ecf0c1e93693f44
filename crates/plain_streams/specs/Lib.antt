pub mod Division
pub mod Dumps
pub mod Requests
pub mod Runs
pub mod Texts
