pub mod Fronts
pub mod Finding
pub mod Counting
pub mod Logging
