pub mod Logs
pub mod Facts
mod Worked
