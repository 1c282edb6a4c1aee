pub mod Readings
pub mod Answers
pub mod Runs
pub mod Claims
pub mod Progress
pub mod Gathering
pub mod Watching
