pub mod More
pub mod Appended
pub mod Ranges
mod Worked
