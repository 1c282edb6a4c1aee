pub mod Weights
pub mod Steps
pub mod Shapes
pub mod Turns
pub mod Rows
pub mod Listed
pub mod Found
