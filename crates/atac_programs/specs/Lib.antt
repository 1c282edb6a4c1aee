pub mod Sections
pub mod Programs
pub mod Understanding
