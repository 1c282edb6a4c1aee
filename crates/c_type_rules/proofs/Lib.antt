pub mod Same
pub mod Steps
pub mod Ranges
pub mod Turned
pub mod Rows
pub mod Rounded
