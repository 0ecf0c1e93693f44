pub mod KeyOrder
pub mod Tables
pub mod Undoing
pub mod SameTables
pub mod Steps
pub mod Arrivals
