pub mod Places
pub mod Copied
pub mod Worked
