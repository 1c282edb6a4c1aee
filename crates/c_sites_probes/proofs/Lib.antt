pub mod Marks
pub mod Rows
mod Worked
