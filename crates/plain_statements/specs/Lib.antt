pub mod Executing
pub mod Filling
pub mod Finishing
pub mod Laws
pub mod Slots
pub mod StatementSpelling
