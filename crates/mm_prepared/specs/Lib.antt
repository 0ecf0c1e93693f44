pub mod Cells
pub mod Declaring
pub mod Kept
pub mod Lent
pub mod Many
