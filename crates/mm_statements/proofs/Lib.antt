pub mod Changes
mod ColumnsTold
pub mod Counts
pub mod Cursors
pub mod Executing
pub mod Finished
pub mod Firsts
pub mod Given
pub mod Headings
pub mod Lines
pub mod ManyRows
pub mod Marks
pub mod NotedMeanings
pub mod Preparing
pub mod Queries
pub mod Requests
pub mod Right
pub mod Seen
