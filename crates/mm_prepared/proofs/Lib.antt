pub mod Declarations
pub mod KeptStatements
pub mod ManyRows
