pub mod Keys
pub mod Looking
pub mod Lawful
pub mod Worked
