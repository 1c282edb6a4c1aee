pub mod Rows
pub mod Scoping
