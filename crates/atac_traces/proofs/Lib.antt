pub mod Adding
pub mod Held
pub mod Course
pub mod One
