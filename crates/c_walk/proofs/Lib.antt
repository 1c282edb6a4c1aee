pub mod Steps
pub mod Numbering
pub mod Kept
pub mod Goes
mod Worked
