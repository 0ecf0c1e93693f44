pub mod CellValues
