pub mod Names
pub mod Lives
pub mod Steps
pub mod World
pub mod Shown
