pub mod Steps
pub mod Opened
pub mod Roles
pub mod Grown
pub mod Advanced
