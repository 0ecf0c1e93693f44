pub mod Example
pub mod Fusion
pub mod Holes
pub mod Resolutions
pub mod Schemas
pub mod Spelled
