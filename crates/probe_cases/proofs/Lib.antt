pub mod Spelled
mod Alike
mod Operators
pub mod Known
pub mod Different
pub mod Select
pub mod Choice
