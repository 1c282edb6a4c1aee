pub mod Cases
pub mod Events
pub mod Worked
pub mod Places
pub mod Order
pub mod Gaining
pub mod Settling
pub mod Calls
