pub mod Stated
pub mod Units
pub mod Programs
