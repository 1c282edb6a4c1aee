mod Lists
mod Found
mod Made
pub mod Left
pub mod Faults
pub mod Alone
pub mod Called
mod Worked
