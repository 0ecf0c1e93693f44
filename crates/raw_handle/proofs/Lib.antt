pub mod Crosses
pub mod Lent
pub mod Steps
