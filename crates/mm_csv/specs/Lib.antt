pub mod BlockLaws
pub mod BlockReading
pub mod Ends
pub mod FrontRecords
pub mod FullNames
pub mod Records
