mod GivenRows
mod RowCells
mod Told
