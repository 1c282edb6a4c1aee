pub mod Passing
pub mod Turned
