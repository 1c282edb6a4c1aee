pub mod Shown
pub mod Missed
