pub mod Undoing
pub mod Parts
pub mod Log
pub mod Lodged
pub mod Tables
pub mod State
