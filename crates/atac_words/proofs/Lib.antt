pub mod Limits
mod Worked
