pub mod Comparing
pub mod KnownRows
pub mod Once
pub mod Picked
pub mod Reading
pub mod Same
pub mod Scans
pub mod Tables
