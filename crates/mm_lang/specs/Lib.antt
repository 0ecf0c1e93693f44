pub mod Parsing
pub mod Printing
pub mod Refusals
pub mod Statements
pub mod Words
