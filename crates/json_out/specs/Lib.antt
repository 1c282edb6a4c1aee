pub mod Json
pub mod Sending
