pub mod Alike
pub mod Distinct
pub mod Hashes
pub mod Known
pub mod Shown
pub mod Table
