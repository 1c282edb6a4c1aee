pub mod Ends
pub mod Codes
pub mod Got
pub mod Grows
pub mod Stops
pub mod Steps
